mod Made
mod Known
mod Called
