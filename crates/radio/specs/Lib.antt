pub mod Radio
