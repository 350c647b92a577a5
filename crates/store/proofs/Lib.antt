pub mod RunJoins
mod ReopeningLaws
mod PrefixLaws
mod GroupsTold
