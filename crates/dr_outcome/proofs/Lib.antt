pub mod Lasts
pub mod Runs
pub mod Due
pub mod OutcomeKinds
pub mod KindsFurther
