pub mod Systems
pub mod Progress
