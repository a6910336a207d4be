pub mod OverTable
