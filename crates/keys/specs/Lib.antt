pub mod Digests
pub mod Faults
pub mod Fnv
pub mod Iso
pub mod Reading
pub mod Translators
pub mod Flaws
pub mod Places
