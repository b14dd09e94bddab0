-- Listings whose keys and values are bytes, as those of files are.
use Rattle.std.specs.Prelude.{Contains, List}
use Rattle.bolt_lemmas.specs.Order.{Rises}
use Rattle.bolt_text.specs.JsonReadings.{IsMemberOfBytes}
use Rattle.bolt_tree.specs.{Listing.Member, Listing.member_cmp}
use Rattle.bolt_layout.specs.Copies.{IsOfOneTree}

abbrev pub AreOfBytes : List Member → Type 0
AreOfBytes listing = (member : Member) → Contains listing member → IsMemberOfBytes member

-- a property holds if the listing is of one tree, in the order of paths, and of bytes
abbrev pub IfWritable : List Member → Type 0 → Type 0
IfWritable listing P = IsOfOneTree listing → Rises member_cmp listing → AreOfBytes listing → P
