-- What a link is, without where it lies in memory (RFC 6690, section 2).
use Rattle.std.specs.Prelude.{ℕ, List}
use Rattle.lw_link.specs.declared.link.Attr.{Attr}

-- a link: the bytes of its target, and its attributes in order
pub record LinkContent : Type 0 where
  pub target : List ℕ
  pub attrs : List Attr
