-- What a statement says, form by form, as the crmsh manual writes its synopsis.
pub mod Phrases
pub mod Scores
pub mod OrderForm
pub mod ColocationForm
pub mod Parts
pub mod ResourceForms
pub mod NodeForm
pub mod SettingsForm
pub mod PrimitiveForm
pub mod RuleTests
pub mod LocationForms
pub mod Lines
pub mod Configurations
