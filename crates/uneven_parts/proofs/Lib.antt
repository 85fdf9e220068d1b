mod Examples
mod Known
