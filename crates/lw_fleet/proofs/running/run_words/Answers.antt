use Rattle.std.proofs.Common.{map, inl, inr}
use Rattle.clap.specs.Words.{subcommand_of}
use Rattle.lw_fleet.specs.CommandLine.{fleet_app}
use Rattle.lw_fleet.proofs.EndingLemmas.{asks_not, end_of_asked, request_without_memory, refused_without_memory, shown_without_memory}
use Rattle.lw_fleet.proofs.running.run_words.Goals as goal

pub returns-in-Ok-clause-end : goal.returns-in-Ok-clause-end
returns-in-Ok-clause-end g c =
    let words = map g.S.AsStr.text c.args.words.now in
    record {
      asked = λ request asked. end_of_asked (subcommand_of fleet_app words) c.in-Ok.request request _ _ _ _ c.in-Ok.ensures.asked asked.1 c.run_request.ensures.end;
      shown = λ asks. absurd (asks_not words c.in-Ok.ensures.accepted asks);
      refused = λ mistaken. absurd (mistaken.nothing c.in-Ok.request (c.in-Ok.ensures.accepted, c.in-Ok.ensures.asked));
      otherwise = λ nothing. absurd (nothing c.in-Ok.request (c.in-Ok.ensures.accepted, c.in-Ok.ensures.asked));
    }

pub returns-in-Ok-clause-unread : goal.returns-in-Ok-clause-unread
returns-in-Ok-clause-unread g c = λ none.
    c.run_request.ensures.unread (λ of_input. none (c.in-Ok.request, (c.in-Ok.ensures.accepted, c.in-Ok.ensures.asked), of_input))

pub returns-in-Err-clause-end : goal.returns-in-Err-clause-end
returns-in-Err-clause-end g c = record {
  asked = λ request asked. request_without_memory request _ _ _ _ (c.show_or_refuse.ensures.no_memory (c.in-Err.ensures.refused asked.0 request asked.1));
  shown = λ asks. elim c.in-Err.ensures.kinds [
    | inl memory ↦ shown_without_memory _ _ _ (c.show_or_refuse.ensures.no_memory memory)
    | inr among ↦ c.show_or_refuse.ensures.shown (asks _ among)
  ];
  refused = λ mistaken. elim c.in-Err.ensures.kinds [
    | inl memory ↦ refused_without_memory _ _ _ (c.show_or_refuse.ensures.no_memory memory)
    | inr among ↦ c.show_or_refuse.ensures.refused (mistaken.no_text _ among)
  ];
  otherwise = λ nothing. c.show_or_refuse.ensures.otherwise;
}
