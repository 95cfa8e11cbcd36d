pub mod OpenerLemmas
