pub mod Common
pub mod ActualPlans
pub mod BatchView
pub mod Opening
pub mod Plans
pub mod Voiding
