-- Laws: what follows from the definitions, with the proofs.
pub mod CalendarLaws
pub mod DigitLaws
pub mod TimeLaws
