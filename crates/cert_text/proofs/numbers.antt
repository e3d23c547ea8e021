pub mod FracTexts
