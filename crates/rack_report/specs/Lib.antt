pub mod PassReport
