pub mod CallLines
pub mod CoreLines
pub mod Fields
pub mod Laws
pub mod Page
pub mod Printed
pub mod Transcript
