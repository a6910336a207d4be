pub mod NumeratorSteps
