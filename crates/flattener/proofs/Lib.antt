pub mod Caps
pub mod Places
pub mod Ranged
pub mod Systems
