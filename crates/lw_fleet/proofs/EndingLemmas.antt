-- How the ends of a run follow from what its parts ended with.
use Rattle.std.proofs.Common.{◌≡◌, ℕ, List, [], ◌∷◌, Option, Bool, refl, sym, subst, ◌∙◌, inl, inr}
use Rattle.std.specs.Io.KnownBytes.{Keeps}
use Rattle.clap.specs.Kinds.{or_else}
use Rattle.clap.specs.Words.{Kinds, Row, Text, fault_of, HasKind, IsAmong}
use Rattle.clap.specs.declared.error.Error.{Error}
use Rattle.clap.specs.declared.error.kind.ErrorKind.TheVariants.{ValueValidation}
use Rattle.lw_stamp.specs.Moment.{ms_of}
use Rattle.lw_fleet.specs.declared.command.OneOptions.{OneOptions}
use Rattle.lw_fleet.specs.declared.command.Request.{Request}
use Rattle.lw_fleet.specs.declared.command.Request.TheVariants.{One, Replay, Serve, Run}
use Rattle.lw_fleet.specs.declared.fault.Fault.TheVariants.{NoMemory}
use Rattle.lw_fleet.specs.declared.running.Ending.{Ending}
use Rattle.lw_fleet.specs.declared.running.Ending.TheVariants.{Done, Failed, Unserved, Stopped, Refused}
use Rattle.lw_fleet.specs.CommandLine.{fleet_app, option_rows, AsksForText, IsAsked, IsGiven, IsRequest, NamesReplay, NamesRun, NamesServe}
use Rattle.lw_fleet.specs.One.{IsAddressText, IsAnswered, IsPrinted, Prints, PrintsFront}
use Rattle.lw_fleet.specs.Program.{EndsOne, EndsRefused, EndsReplay, EndsRequest, EndsRun, EndsServe, EndsShown, EndsWithoutMemory}
use Rattle.lw_fleet.proofs.OneLemmas.{if_some}

-- ---- memory that ran out

pub refused_early : (before after : Option (List ℕ)) (ending : Ending) (told : Bool) → ending ≡ Failed NoMemory told → Keeps before after → EndsRefused before after ending
refused_early before after ending told is keeps = subst (EndsRefused before after) (sym is) (refl, keeps)

pub refused_without_memory : (before after : Option (List ℕ)) (ending : Ending) → EndsWithoutMemory before after ending → EndsRefused before after ending
refused_without_memory before after ending early = refused_early before after ending early.0 early.1 early.2

pub shown_without_memory : (before after : Option (List ℕ)) (ending : Ending) → EndsWithoutMemory before after ending → EndsShown before after ending
shown_without_memory before after ending early = subst (EndsShown before after) (sym early.1) (inl (refl, early.2))

pub one_without_memory : (options : OneOptions) (input before after : Option (List ℕ)) (ending : Ending) → EndsWithoutMemory before after ending
    → EndsOne options input before after ending
one_without_memory options input before after ending early = subst (EndsOne options input before after) (sym early.1) (record {
  address = λ h. absurd cc;
  address_first = λ none. inr refl;
  too_long = λ h. absurd cc;
  hex = λ h. absurd cc;
  front = λ h. absurd cc;
  nothing = λ h. early.2;
  no_script = λ line h. cc;
})

pub replay_without_memory : (input before after : Option (List ℕ)) (ending : Ending) → EndsWithoutMemory before after ending
    → EndsReplay input before after ending
replay_without_memory input before after ending early = subst (EndsReplay input before after) (sym early.1) (record {
  too_long = λ h. absurd cc;
  refused = λ line h. absurd cc;
  front = λ h. absurd cc;
  memory = λ h. inl early.2;
  nothing = λ written memory. early.2;
  of_one = (λ h. cc, λ h. cc);
})

pub serve_without_memory : (before after : Option (List ℕ)) (ending : Ending) → EndsWithoutMemory before after ending → EndsServe before after ending
serve_without_memory before after ending early = subst (EndsServe before after) (sym early.1) (refl, early.2)

run_without_memory : (before after : Option (List ℕ)) (ending : Ending) → EndsWithoutMemory before after ending → EndsRun before after ending
run_without_memory before after ending early = subst (EndsRun before after) (sym early.1) (refl, early.2)

pub request_without_memory : (request : Request) (input before after : Option (List ℕ)) (ending : Ending) → EndsWithoutMemory before after ending
    → EndsRequest request input before after ending
request_without_memory (One options) input before after ending early = one_without_memory options input before after ending early
request_without_memory Replay input before after ending early = replay_without_memory input before after ending early
request_without_memory (Serve options) input before after ending early = serve_without_memory before after ending early
request_without_memory (Run options) input before after ending early = run_without_memory before after ending early

-- ---- words that ask for something

pub or_more : (kinds next : Kinds) (e : Error) → HasKind kinds e → HasKind (or_else kinds next) e
or_more [] next e (inl memory) = inl memory
or_more [] next e (inr among) = absurd among
or_more (k ∷ ks) next e h = h

no_request : IsRequest ValueValidation → ⊥
no_request (inl h) = cc
no_request (inr h) = cc

-- words that are taken ask for no text
pub asks_not : (words : List Text) → fault_of fleet_app words ≡ [] → AsksForText words → ⊥
asks_not words none asks = no_request (asks ValueValidation (subst (λ kinds. IsAmong ValueValidation (or_else kinds (ValueValidation ∷ []))) (sym none) (inl refl)))

-- ---- options that are given by the same words

record AreSame (a b : OneOptions) : Type 0 where
  node : a.node ≡ b.node
  now : ms_of a.now ≡ ms_of b.now
  from : a.from.now ≡ b.from.now

are_same : (rows : List Row) (a b : OneOptions) → IsGiven rows a → IsGiven rows b → AreSame a b
are_same rows a b ga gb = record {
  node = sym ga.node.1 ∙ gb.node.1;
  now = sym ga.now.1 ∙ gb.now.1;
  from = ga.from ∙ sym gb.from;
}

same_printed : (a b : OneOptions) (input text : List ℕ) → AreSame a b → IsPrinted a input text → IsPrinted b input text
same_printed a b input text same p = record {
  source = p.source;
  datagram = p.datagram;
  in_range = p.in_range;
  from_is = sym same.from ∙ p.from_is;
  line_fits = p.line_fits;
  spelled = p.spelled;
  answered = subst (λ (n : ℕ). IsAnswered n (ms_of b.now) p.source p.datagram text) same.node
      (subst (λ (m : ℕ). IsAnswered a.node m p.source p.datagram text) same.now p.answered);
}

same_prints : (a b : OneOptions) (input before after : Option (List ℕ)) → AreSame a b → Prints a input before after → Prints b input before after
same_prints a b input before after same h = if_some input _ _ h (λ bytes p. (p.0, same_printed a b bytes p.0 same p.1, p.2))

same_front : (a b : OneOptions) (input before after : Option (List ℕ)) → AreSame a b → PrintsFront a input before after → PrintsFront b input before after
same_front a b input before after same h = if_some input _ _ h (λ bytes p. (p.0, same_printed a b bytes p.0 same p.1, p.2))

same_address : (a b : OneOptions) → AreSame a b → IsAddressText a.from.now → IsAddressText b.from.now
same_address a b same h = subst IsAddressText same.from h

same_back : (a b : OneOptions) → AreSame a b → IsAddressText b.from.now → IsAddressText a.from.now
same_back a b same h = subst IsAddressText (sym same.from) h

same_end : (a b : OneOptions) (input before after : Option (List ℕ)) (ending : Ending) → AreSame a b
    → EndsOne a input before after ending → EndsOne b input before after ending
same_end a b input before after Done same h = (λ none. h.0 (λ address. none (same_address a b same address)), same_prints a b input before after same h.1)
same_end a b input before after (Failed fault told) same h = record {
  address = λ is address. h.address is (same_back a b same address);
  address_first = λ none. h.address_first (λ address. none (same_address a b same address));
  too_long = h.too_long;
  hex = h.hex;
  front = λ is. same_front a b input before after same (h.front is);
  nothing = h.nothing;
  no_script = h.no_script;
}
same_end a b input before after (Unserved fault told) same h = h
same_end a b input before after (Stopped fault told) same h = h
same_end a b input before after Refused same h = h

-- no command has two names
pub replay_or_serve : (command : Option (Text × List Row)) → NamesReplay command → NamesServe command → ⊥
replay_or_serve command replays serves = cc

pub replay_or_run : (command : Option (Text × List Row)) → NamesReplay command → NamesRun command → ⊥
replay_or_run command replays runs = cc

pub serve_or_run : (command : Option (Text × List Row)) → NamesServe command → NamesRun command → ⊥
serve_or_run command serves runs = cc

-- the same words ask for one thing
pub end_of_asked : (command : Option (Text × List Row)) (a b : Request) (input before after : Option (List ℕ)) (ending : Ending)
    → IsAsked command a → IsAsked command b
    → EndsRequest a input before after ending → EndsRequest b input before after ending
end_of_asked command (One a) (One b) input before after ending (_, _, _, ga) (_, _, _, gb) h = same_end a b input before after ending (are_same (option_rows command) a b ga gb) h
end_of_asked command (One a) Replay input before after ending (other, _, _, ga) replays h = absurd (other replays)
end_of_asked command (One a) (Serve b) input before after ending (_, other, _, ga) (serves, gb) h = absurd (other serves)
end_of_asked command (One a) (Run b) input before after ending (_, _, other, ga) (runs, gb) h = absurd (other runs)
end_of_asked command Replay (One b) input before after ending replays (other, _, _, gb) h = absurd (other replays)
end_of_asked command Replay Replay input before after ending replays again h = h
end_of_asked command Replay (Serve b) input before after ending replays (serves, gb) h = absurd (replay_or_serve command replays serves)
end_of_asked command Replay (Run b) input before after ending replays (runs, gb) h = absurd (replay_or_run command replays runs)
end_of_asked command (Serve a) (One b) input before after ending (serves, ga) (_, other, _, gb) h = absurd (other serves)
end_of_asked command (Serve a) Replay input before after ending (serves, ga) replays h = absurd (replay_or_serve command replays serves)
end_of_asked command (Serve a) (Serve b) input before after ending asked again h = h
end_of_asked command (Serve a) (Run b) input before after ending (serves, ga) (runs, gb) h = absurd (serve_or_run command serves runs)
end_of_asked command (Run a) (One b) input before after ending (runs, ga) (_, _, other, gb) h = absurd (other runs)
end_of_asked command (Run a) Replay input before after ending (runs, ga) replays h = absurd (replay_or_run command replays runs)
end_of_asked command (Run a) (Serve b) input before after ending (runs, ga) (serves, gb) h = absurd (serve_or_run command serves runs)
end_of_asked command (Run a) (Run b) input before after ending asked again h = h
