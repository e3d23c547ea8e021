pub mod form_laws
