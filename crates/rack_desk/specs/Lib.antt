pub mod LineDesk
