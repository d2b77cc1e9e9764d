pub mod Documentation
