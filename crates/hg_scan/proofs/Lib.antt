mod FrontKinds
mod Texts
mod Cuts
mod Packed
mod Digits
mod Undoubling
mod Spellings
