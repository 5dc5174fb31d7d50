pub mod FreshImages
