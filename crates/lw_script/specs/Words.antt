-- The words that begin the lines of a script.
use Rattle.std.specs.Prelude.{ℕ, List, codes}
use Rattle.lw_script.specs.declared.word.Word.{Word}
use Rattle.lw_script.specs.declared.word.Word.TheVariants.{Take, Observe, Cancel, Sweep, Send, Deliver, Id, Endpoint, Address, Token, Watch, Next, Expired, Change}

abbrev pub word_text : Word → List ℕ
word_text Take = codes "take"
word_text Observe = codes "observe"
word_text Cancel = codes "cancel"
word_text Sweep = codes "sweep"
word_text Send = codes "send"
word_text Deliver = codes "deliver"
word_text Id = codes "id"
word_text Endpoint = codes "endpoint"
word_text Address = codes "address"
word_text Token = codes "token"
word_text Watch = codes "watch"
word_text Next = codes "next"
word_text Expired = codes "expired"
word_text Change = codes "change"
