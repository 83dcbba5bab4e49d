pub mod FewWords
pub mod Printed
