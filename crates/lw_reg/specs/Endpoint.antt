-- The name of a client is a text of 1 to 252 bytes (LwM2M 1.1 Core, section 6.2.1: the Register parameter `ep`).
use Rattle.std.specs.Prelude.{ℕ, ◌≤◌, List, length}

pub record IsEndpoint (text : List ℕ) : Type 0 where
  pub some : 1 ≤ length text
  pub most : length text ≤ 252
