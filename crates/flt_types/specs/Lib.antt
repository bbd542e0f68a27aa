pub mod Blame
pub mod Faults
pub mod Laws
pub mod Operands
pub mod TextFaults
pub mod TextLaws
