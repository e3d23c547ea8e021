pub mod fitted_laws
