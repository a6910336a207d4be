pub mod Average
