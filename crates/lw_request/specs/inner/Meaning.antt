-- What a message that was taken apart is understood as.
use Rattle.std.specs.Prelude.{◌≡◌, IsErr, Result, Ok, Err}
use Rattle.lw_stamp.specs.declared.no_memory.NoMemory.{NoMemory}
use Rattle.lw_request.specs.declared.asked.Asked.{Asked}
use Rattle.lw_request.specs.declared.asked.Asked.TheVariants.{Refuse}
use Rattle.lw_request.specs.declared.objects.Unread.{Unread}
use Rattle.lw_request.specs.declared.objects.Unread.TheVariants.{TooLarge, NoLinks, NoMemory as WantOfMemory}
use Rattle.lw_request.specs.declared.refusal.Refusal.TheVariants.{BadRequest, RequestEntityTooLarge}
use Rattle.lw_request.specs.Meaning.{Owns}

-- the answer is what is meant; or want of memory, in place of what owns a text or bytes
abbrev pub Understands : (Asked → Type 0) → Result Asked NoMemory → Type 0
Understands Meant (Ok asked) = Meant asked
Understands Meant (Err _) = (asked : Asked) × Meant asked × Owns asked

-- what a POST asks for whose payload was not read: 4.13, 4.00, or want of memory
abbrev pub UnreadAsks : Unread → Result Asked NoMemory → Type 0
UnreadAsks TooLarge result = result ≡ Ok (Refuse RequestEntityTooLarge)
UnreadAsks NoLinks result = result ≡ Ok (Refuse BadRequest)
UnreadAsks WantOfMemory result = IsErr result
