-- Replies that a log over a stream gets (Redis serialization protocol, version 2; Redis streams: `XRANGE`).
use Rattle.std.specs.Prelude.{◌≡◌, ◌≢◌, ℕ, List, ◌++◌, length}
use Rattle.std.specs.List.{flat_map, AllZip}
use Rattle.lw_resp.specs.Bytes.{count_line}
use Rattle.lw_resp.specs.Words.{WordContent, IsWord, word_bytes, word_content}
use Rattle.lw_resp.specs.Words.WordContent.{Array}
use Rattle.lw_resp.specs.Streams.{EntryContent, IsArrayOf, IsEntry, IsEntryOf, entry_bytes}
use Rattle.lw_resp.specs.declared.replies.Reply.{Reply}
use Rattle.lw_resp.specs.declared.replies.Reply.TheVariants.{Word as WordReply, Entries as EntriesReply}

-- a word that is no head of an array, or an array of entries
pub data ReplyContent : Type 0 where
  Single : WordContent → ReplyContent
  Entries : List EntryContent → ReplyContent

abbrev pub reply_bytes : ReplyContent → List ℕ
reply_bytes (Single word) = word_bytes word
reply_bytes (Entries entries) = count_line 42 (length entries) ++ flat_map entry_bytes entries

pub record IsSingle (word : WordContent) : Type 0 where
  pub is : IsWord word
  pub single : (number : ℕ) → word ≢ Array number

abbrev pub IsReply : ReplyContent → Type 0
IsReply (Single word) = IsSingle word
IsReply (Entries entries) = IsArrayOf IsEntry entries

-- what the library's reply is
abbrev pub IsReplyOf : Reply → ReplyContent → Type 0
IsReplyOf (WordReply word) (Single content) = word_content word ≡ content
IsReplyOf (WordReply word) (Entries entries) = ⊥
IsReplyOf (EntriesReply shown) (Single content) = ⊥
IsReplyOf (EntriesReply shown) (Entries entries) = AllZip IsEntryOf entries shown.items
