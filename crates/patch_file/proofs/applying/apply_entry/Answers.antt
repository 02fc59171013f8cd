use Rattle.std.proofs.Common.{ℕ, List, ◌≡◌, ◌≤◌, ◌++◌, length, map, ap, sym, ◌∙◌, subst, arith, length-append}
use Rattle.patch_bytes.specs.Puts.{write, AreWithin}
use Rattle.patch_file.specs.Exchanges.{Exchange}
use Rattle.patch_file.specs.FieldView.{exchange_of}
use Rattle.patch_file.specs.Standing.{new_of}
use Rattle.patch_file.proofs.Puts.{news_within, within_more, put_whole}
use Rattle.patch_file.proofs.applying.apply_entry.Goals as goal

pub put_fields-requires : goal.put_fields-requires
put_fields-requires c =
    let e = c.args.e.now in
    let longer : length c.deref_mut.result.now ≡ length (c.args.body.now.items ++ e.append) =
    ap length (c.deref_mut.ensures.value ∙ c.in_ok-extend_from_slice.ensures.items
    ∙ ap (λ (t : List ℕ). c.args.body.now.items ++ t) c.as_slice.ensures) in
    let old = c.requires.long in
    let long : e.len ≤ length c.deref_mut.result.now = omega (arith, length-append c.args.body.now.items e.append) in
    subst (λ (fs : List Exchange). AreWithin (length c.deref_mut.result.now) (map new_of fs)) (sym c.as_slice-2.ensures)
    (within_more e.len (length c.deref_mut.result.now) (map new_of e.fields) long (news_within 0 e.len e.fields e.rules))

pub returns-clause-ok : goal.returns-clause-ok
returns-clause-ok c =
    let e = c.args.e.now in
    let y : List ℕ = c.extend_from_slice.new.self.items in
    let more : c.extend_from_slice.new.self.items ≡ c.args.body.now.items ++ e.append =
    c.in_ok-extend_from_slice.ensures.items ∙ ap (λ (t : List ℕ). c.args.body.now.items ++ t) c.as_slice.ensures in
    let written : c.put_fields.new.body ≡ write y (map new_of e.fields) =
    c.put_fields.ensures ∙ ap (λ (b : List ℕ). write b (map new_of (map exchange_of c.as_slice-2.result.now))) c.deref_mut.ensures.value
    ∙ ap (λ (fs : List Exchange). write y (map new_of fs)) c.as_slice-2.ensures in
    let within : AreWithin (length c.args.body.now.items) (map new_of e.fields) =
    subst (λ n. AreWithin n (map new_of e.fields)) (sym c.requires.long) (news_within 0 e.len e.fields e.rules) in
    put_whole c.args.body.now.items e.append c.put_fields.new.body y (map new_of e.fields) c.extend_from_slice.new.self.len within more written (omega arith)
