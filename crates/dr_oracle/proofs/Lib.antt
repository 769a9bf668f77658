mod Durable
mod Endings
mod Orders
