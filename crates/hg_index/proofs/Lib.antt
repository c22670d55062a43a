mod Orders
mod Walking
mod Looking
mod Keys
mod Telling
mod Changing
mod Trying
