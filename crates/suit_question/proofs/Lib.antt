pub mod EndPlaces
pub mod ReadBack
pub mod ValuesBack
