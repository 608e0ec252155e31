use Rattle.std.proofs.Common.{◌≡◌, List, Option, Result, Ok, Err, IfErr, true, map, refl, sym, ap, subst, ◌∙◌, [], ◌∷◌, inl, inr}
use Rattle.std.specs.Prelude.{IsErrAnd}
use Rattle.clap.specs.Kinds.{or_else}
use Rattle.clap.specs.Words.{App, Row, Text, fault_of, is_simple, is_simple_and_free, subcommand_of, kind_of, FailsBy, HasKind, Kinds}
use Rattle.clap.specs.declared.error.Error.{Error}
use Rattle.clap.specs.declared.parser.matches.ArgMatches.{ArgMatches}
use Rattle.clap.specs.declared.error.kind.ErrorKind.TheVariants.{OutOfMemory, ValueValidation}
use Rattle.clap.proofs.OnLiterals.{clap_on_literals}
use Rattle.lw_fleet.specs.CommandLine.{fleet_app, one_app, replay_app, run_app, serve_app, udp_app, kinds_of_words, IsAsked}
use Rattle.lw_fleet.specs.declared.command.Request.{Request}
use Rattle.lw_fleet.proofs.EndingLemmas.{or_more}
use Rattle.lw_fleet.proofs.command.read_request.Goals as goal

fleet_is_simple : is_simple fleet_app ≡ true
unfolding fleet_app one_app replay_app serve_app run_app udp_app clap_on_literals
fleet_is_simple = refl

fleet_is_free : is_simple_and_free fleet_app ≡ true
unfolding fleet_app one_app replay_app serve_app run_app udp_app clap_on_literals
fleet_is_free = refl

-- what a parse of these words answers
fails_by : (words : List Text) (app : App) (r : Result ArgMatches Error) → app ≡ fleet_app
    → (is_simple_and_free app ≡ true → FailsBy (fault_of app words) r) → FailsBy (fault_of fleet_app words) r
fails_by words app r same parsed =
    subst (λ (a : App). FailsBy (fault_of a words) r) same (parsed (ap is_simple_and_free same ∙ fleet_is_free))

no_kind : (kinds : Kinds) (e : Error) → HasKind kinds e → kinds ≡ [] → kind_of e ≡ OutOfMemory
no_kind kinds e h none = elim (subst (λ k. HasKind k e) none h) [
  | inl memory ↦ memory
  | inr among ↦ absurd among
]

-- what is said of a refusal of these words
abbrev IsCaused : List Text → Error → Type 0
IsCaused words e = fault_of fleet_app words ≡ [] → (r : Request) → IsAsked (subcommand_of fleet_app words) r → kind_of e ≡ OutOfMemory

passed_on : (words : List Text) (r : Result Request Error) (Q : Error → Type 0) → IsErrAnd r Q → ((e : Error) → Q e → IsCaused words e) → IfErr r (IsCaused words)
passed_on words (Ok request) Q h f = tt
passed_on words (Err e) Q h f = f e h

pub returns-in_err-matches-clause-refused : goal.returns-in_err-matches-clause-refused
returns-in_err-matches-clause-refused g c =
    let words = map g.S.AsStr.text c.args.words.now in
    let kinds = fails_by words _ (Err c.in_err-matches.field-0.0) c.in_ok-command.ensures c.in_err-matches.ensures.kinds in
    passed_on words _ _ c.from_residual-in_err-matches.ensures.1
    (λ e same none request asked. cc (same, no_kind _ c.in_err-matches.field-0.0 kinds none))

pub returns-in-Ok-clause-accepted : goal.returns-in-Ok-clause-accepted
returns-in-Ok-clause-accepted g c =
    fails_by (map g.S.AsStr.text c.args.words.now) _ (Ok c.in_ok-matches.matches) c.in_ok-command.ensures c.in_ok-matches.ensures.kinds

pub returns-in_err-option_refused-in-Err-clause-refused : goal.returns-in_err-option_refused-in-Err-clause-refused
returns-in_err-option_refused-in-Err-clause-refused g c =
    passed_on (map g.S.AsStr.text c.args.words.now) _ _ c.from_residual-in_err-option_refused-in-Err.ensures.1 (λ e memory taken request asked. memory)

-- what the parse found is what the words give
rows_of_words : (words : List Text) (app : App) (found : Option (Text × List Row)) → app ≡ fleet_app
    → (is_simple app ≡ true → found ≡ subcommand_of app words) → found ≡ subcommand_of fleet_app words
rows_of_words words app found same parsed = parsed (ap is_simple same ∙ fleet_is_simple) ∙ ap (λ (a : App). subcommand_of a words) same

pub returns-in-Ok-clause-asked : goal.returns-in-Ok-clause-asked
returns-in-Ok-clause-asked g c =
    let rows = rows_of_words (map g.S.AsStr.text c.args.words.now) _ _ c.in_ok-command.ensures (λ h. (c.in_ok-matches.ensures.matches h).1) in
    subst (λ s. IsAsked s c.in-Ok.request) rows c.in-Ok.ensures.asked

pub returns-clause-refused : goal.returns-clause-refused
returns-clause-refused g c =
    let rows = rows_of_words (map g.S.AsStr.text c.args.words.now) _ _ c.in_ok-command.ensures (λ h. (c.in_ok-matches.ensures.matches h).1) in
    λ taken request asked. absurd (c.in-Err.ensures.none request (subst (λ s. IsAsked s request) (sym rows) asked))

has_kind : (words : List Text) (r : Result Request Error) (one : Error) → IsErrAnd r (λ e. e ≡ one) → HasKind (kinds_of_words words) one
    → IfErr r (HasKind (kinds_of_words words))
has_kind words (Ok request) one h k = tt
has_kind words (Err e) one h k = subst (HasKind (kinds_of_words words)) (sym h) k

pub returns-in_err-matches-clause-kinds : goal.returns-in_err-matches-clause-kinds
returns-in_err-matches-clause-kinds g c =
    let words = map g.S.AsStr.text c.args.words.now in
    let kinds = fails_by words _ (Err c.in_err-matches.field-0.0) c.in_ok-command.ensures c.in_err-matches.ensures.kinds in
    has_kind words _ c.in_err-matches.field-0.0 c.from_residual-in_err-matches.ensures.1 (or_more (fault_of fleet_app words) _ c.in_err-matches.field-0.0 kinds)

pub returns-clause-kinds : goal.returns-clause-kinds
returns-clause-kinds g c =
    let words = map g.S.AsStr.text c.args.words.now in
    let none = fails_by words _ (Ok c.in_ok-matches.matches) c.in_ok-command.ensures c.in_ok-matches.ensures.kinds in
    subst (λ kinds. HasKind (or_else kinds (ValueValidation ∷ [])) c.in_ok-option_refused-in-Err.field-0) (sym none)
    (inr (inl c.in_ok-option_refused-in-Err.ensures))
