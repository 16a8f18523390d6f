use Rattle.std.proofs.Common.{◌∙◌, ap, refl, subst, ◌∷◌, ℕ, List}
use Rattle.lio_values.specs.declared.entry.Entry.{Entry}
use Rattle.lio_front.specs.Sorted.{bytes_of_words}
use Rattle.lio_front.specs.Status.{exit_status}
use Rattle.lio_host_main.specs.Answers.{EndsWith}
use Rattle.lio_c.specs.Alone.{alone_words}
use Rattle.lio_c.specs.Answers.{in_memory, memory_call, names_and_bytes}
use Rattle.lio_c.specs.Netstrings.{netstrings}
use Rattle.lio_c.proofs.ReplyLemmas.{written-by}
use Rattle.lio_c.proofs.SureLemmas.{sure-answer}
use Rattle.lio_c.proofs.call.reply_to.Goals as goal

pub returns : goal.returns
returns c =
    let words : List (List ℕ) = bytes_of_words c.args.words.now in
    let outcome = c.call_alone-outcome.result in
    let after = c.call_alone-outcome.new.store in
    let said : List ℕ = c.call_alone-outcome.new.say in
    let before = c.args.store in
    let Ends : List ℕ → Type 0 = λ silence.
    EndsWith (λ (journal : List Entry). record { words = alone_words words; before = in_memory before silence; after = in_memory after said; journal = journal }) outcome.status (exit_status outcome.status) in
    let ends : EndsWith (memory_call words before after said) outcome.status (exit_status outcome.status) = subst Ends c.new-say.ensures (record {
      journal = outcome.journal;
      says = c.call_alone-outcome.ensures.says;
      follows = c.call_alone-outcome.ensures.follows;
      completes = c.call_alone-outcome.ensures.completes;
      bad_words = c.call_alone-outcome.ensures.bad_words;
      count = c.call_alone-outcome.ensures.count;
      exit_is = refl;
    }) in
    record {
      after = after;
      said = said;
      message = c.as_bytes-text.result.now;
      names = c.in_ok-names.names;
      ends = ends;
      sure = sure-answer words before after said ends.journal outcome.status ends.says;
      written = written-by before (alone_words words) outcome.status outcome.job c.in_ok-names.names c.call_alone-outcome.ensures.job c.in_ok-names.ensures;
      reply_is = c.in_ok-reply.ensures
          ∙ ap (λ (s : List ℕ). netstrings (s ∷ c.as_bytes-text.result.now ∷ names_and_bytes after c.as_slice.result.now)) c.said.ensures
          ∙ ap (λ (names : List (List ℕ)). netstrings (said ∷ c.as_bytes-text.result.now ∷ names_and_bytes after names)) c.as_slice.ensures;
    }
