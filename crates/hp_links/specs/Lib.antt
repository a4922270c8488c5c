pub mod Boards
pub mod Chains
pub mod Links
pub mod Mails
