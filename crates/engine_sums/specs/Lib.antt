pub mod QuarterSteps
