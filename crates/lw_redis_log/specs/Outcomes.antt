-- What replies are to what was asked (Redis commands: the replies of XADD, XRANGE, XTRIM, AUTH, PING and INFO).
use Rattle.std.specs.Prelude.{◌≡◌, ◌≢◌, ℕ, List, Result, Ok, Err, MatchResult, IfOk, IfErr, IsErrAnd}
use Rattle.std.specs.Borrow.{Bor}
use Rattle.lw_resp.specs.StreamIds.{id_text, FitsId}
use Rattle.lw_resp.specs.declared.stream_id.StreamId.{StreamId}
use Rattle.lw_resp.specs.declared.entries.Entry.{Entry}
use Rattle.lw_resp.specs.declared.replies.Reply.{Reply}
use Rattle.lw_resp.specs.declared.replies.Reply.TheVariants.{Word as WordReply, Entries as EntriesReply}
use Rattle.lw_resp.specs.declared.words.Word.TheVariants.{Status, Error, Number, Bulk, Null}
use Rattle.lw_redis_log.specs.declared.outcomes.RedisFault.{RedisFault}
use Rattle.lw_redis_log.specs.declared.outcomes.RedisFault.TheVariants.{Unavailable, Refused, Lost}
use Rattle.lw_redis_log.specs.Errors.{Passes}

-- an error that passes, or a refusal with its text
abbrev pub IsFaultOf : List ℕ → RedisFault → Type 0
IsFaultOf error Unavailable = Passes error
IsFaultOf error (Refused text) = ¬ Passes error × (text.now ≡ error)
IsFaultOf error Lost = ⊥

-- the identifier of the entry; null where the stream is not there
abbrev pub IsAppended : Reply → Result StreamId RedisFault → Type 0
IsAppended (WordReply (Bulk text)) result = MatchResult result (λ id. text.now ≡ id_text id)
    (λ fault. (fault ≡ Unavailable) × ((id : StreamId) → FitsId id → text.now ≢ id_text id))
IsAppended (WordReply Null) result = result ≡ Err Lost
IsAppended (WordReply (Error text)) result = IsErrAnd result (IsFaultOf text.now)
IsAppended _ result = result ≡ Err Unavailable

-- the entries
abbrev pub AreEntries : Reply → Result (Bor (List Entry)) RedisFault → Type 0
AreEntries (EntriesReply entries) result = MatchResult result (λ shown. shown.now ≡ entries.items) (λ _. ⊥)
AreEntries (WordReply (Error text)) result = IsErrAnd result (IsFaultOf text.now)
AreEntries _ result = result ≡ Err Unavailable

-- how many entries went
abbrev pub IsTrimmed : Reply → Result ℕ RedisFault → Type 0
IsTrimmed (WordReply (Number number)) result = result ≡ Ok number
IsTrimmed (WordReply (Error text)) result = IsErrAnd result (IsFaultOf text.now)
IsTrimmed _ result = result ≡ Err Unavailable

-- the status that is wanted
abbrev pub IsStatus : List ℕ → Reply → Result Unit RedisFault → Type 0
IsStatus want (WordReply (Status text)) result =
    MatchResult result (λ _. text.now ≡ want) (λ fault. (fault ≡ Unavailable) × (text.now ≢ want))
IsStatus want (WordReply (Error text)) result = IsErrAnd result (IsFaultOf text.now)
IsStatus want _ result = result ≡ Err Unavailable

-- the text of INFO
abbrev pub IsInfo : Reply → Result (Bor (List ℕ)) RedisFault → Type 0
IsInfo (WordReply (Bulk text)) result = MatchResult result (λ shown. shown.now ≡ text.now) (λ _. ⊥)
IsInfo (WordReply (Error text)) result = IsErrAnd result (IsFaultOf text.now)
IsInfo _ result = result ≡ Err Unavailable
