pub mod Intent
