pub mod Orders
pub mod Order
pub mod Decimal
pub mod Valid
