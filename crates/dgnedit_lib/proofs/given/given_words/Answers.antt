use Rattle.std.proofs.Common.{map, string_bytes, ap, sym, subst, ◌∙◌, ◌++◌, ◌∷◌, [], arith}
use Rattle.std.specs.Str.{IsUtf8}
use Rattle.std.proofs.lemmas.Str.{IsUtf8-had}
use Rattle.std.proofs.lemmas.List.{map-append}
use Rattle.dgnedit_lib.proofs.TextWords.{all_more, kept_more, none_given}
use Rattle.dgnedit_lib.proofs.given.given_words.Goals as goal

pub returns-in-Err : goal.returns-in-Err
returns-in-Err c =
    ap (map string_bytes) c.new.ensures.items
    ∙ none_given c.args.words.now c.loop-word.word-index _ (omega arith)
    (λ text. let e = c.in-Err.ensures.succeeds (subst IsUtf8 (sym c.in_ok-bytes.ensures.items) text) in cc)

pub loop-word-preserved : goal.loop-word-preserved
loop-word-preserved c =
    let is = ap (λ v. v.items) c.in-Ok.ensures.ok ∙ c.in_ok-bytes.ensures.items in
    record {
      kept =
          ap (map string_bytes) c.in_ok-push-in-Ok.ensures.items
          ∙ map-append string_bytes c.loop-word.texts.items (c.in-Ok.text ∷ [])
          ∙ ap (λ word. map string_bytes c.loop-word.texts.items ++ word ∷ []) is
          ∙ kept_more c.args.words.now c.loop-word.word-index _ _ (omega arith) c.loop-word.invariant.kept;
      all = all_more c.args.words.now c.loop-word.word-index _ (omega arith) c.loop-word.invariant.all (subst IsUtf8 is (IsUtf8-had _ c.in-Ok.text.ok));
    }
