-- What the lines of a status, of results and of a run say, form by form. Nothing here reads: a form is a relation between words and what they say.
pub mod WordValues
pub mod ResultForms
pub mod RunForms
pub mod StatusForms
pub mod LinesSaid
pub mod TextsSaid
