pub mod Rule
pub mod Wire
