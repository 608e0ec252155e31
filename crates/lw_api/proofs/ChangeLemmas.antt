-- What is shown of one more slot that has moved.
use Rattle.std.proofs.Common.{◌≡◌, ℕ, List, [], ◌∷◌, ◌++◌, ◌∙◌, refl, sym}
use Rattle.std.proofs.lemmas.List.{map-append}
use Rattle.std.proofs.lemmas.List.Elements.{All-append, All-cons, All-nil}
use Rattle.lw_table.specs.Changes.{Moved, upto_of}
use Rattle.lw_node.specs.Node.{NodeContent}
use Rattle.lw_json.specs.Changes.{Change}
use Rattle.lw_api.specs.Answers.{named_by_change, named_by_moved, IsShownAs}
use Rattle.lw_api.specs.inner.Changes.{AreShown}

pub none_shown : (node : NodeContent) (now : ℕ) → AreShown node now [] []
none_shown node now = record { of_them = refl; shown = All-nil (IsShownAs node now) }

pub shown_more : (node : NodeContent) (now : ℕ) (page : List Moved) (changes : List Change) (moved : Moved) (change : Change)
    → AreShown node now page changes → named_by_change change ≡ named_by_moved moved → IsShownAs node now change
    → AreShown node now (page ++ moved ∷ []) (changes ++ change ∷ [])
shown_more node now page changes moved change before same is_shown = record {
  of_them = map-append named_by_change changes (change ∷ []) ∙ (λ k. before.of_them k ++ same k ∷ [])
      ∙ sym (map-append named_by_moved page (moved ∷ []));
  shown = All-append (IsShownAs node now) changes (change ∷ []) before.shown
      (All-cons (IsShownAs node now) change [] is_shown (All-nil (IsShownAs node now)));
}

-- the last of some changes is the one behind them
pub upto_more : (since : ℕ) (page : List Moved) (moved : Moved) → upto_of since (page ++ moved ∷ []) ≡ moved.0
upto_more since [] moved = refl
upto_more since (first ∷ page) moved = upto_more first.0 page moved
