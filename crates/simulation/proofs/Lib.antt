-- In reading order.
pub mod StepLaws
pub mod AreaSteps
pub mod ReadSteps
pub mod HeldSteps
pub mod SoundLaws
pub mod MapSteps
pub mod StoreSteps
pub mod GrantSteps
pub mod RunSteps
pub mod ValueSteps
pub mod Simulate
pub mod AnySound
pub mod AcceptedLaws
pub mod TakenLaws
pub mod Roll
