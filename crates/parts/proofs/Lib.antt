mod Adding
mod Written
