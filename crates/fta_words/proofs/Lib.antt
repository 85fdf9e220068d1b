pub mod Examples
mod AllKinds
mod EachKind
mod FlagSteps
mod Found
mod Identifiers
mod Names
mod Parses
mod Places
mod PlainFront
mod Roots
mod ShortForms
mod Spelled
pub mod Requests
