pub mod Mailbox
pub mod Reader
pub mod Examples
