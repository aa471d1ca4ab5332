pub mod Borrowed
pub mod BorrowedItems
