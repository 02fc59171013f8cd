use Rattle.std.proofs.Common.{◌++◌, ◌∷◌, [], List, sym, ap, ◌∙◌, subst}
use Rattle.elem_index.specs.Design.{elements}
use Rattle.patch_bytes.specs.Puts.{Put}
use Rattle.dgn_drawing.specs.declared.edit.Edit.{Edit}
use Rattle.std.specs.Option.{option_to_list}
use Rattle.edit_ops.specs.Rules.{rule_of}
use Rattle.edit_ops.specs.Written.{live_puts}
use Rattle.edit_ops.specs.Trees.{found_at}
use Rattle.edit_ops.specs.Copying.{AddsUnless}
use Rattle.edit_ops.specs.Putting.{MayBePut, leaving}
use Rattle.edit_ops.proofs.ElementAnswers.{readable_of, holds_found, long_found, four_found, look_found, moved_found}
use Rattle.edit_ops.proofs.LeavingElements.{leaving_found, adds_same}
use Rattle.edit_ops.proofs.changes.live.push_patches.Goals as goal

pub push_moved-requires : goal.push_moved-requires
push_moved-requires c =
    let found = c.in-Some.ensures.found in
    let readable = subst (λ (e : Edit). MayBePut e found.element) c.in-Move.is
    (readable_of c.args.edit.now (elements c.args.d.now) c.args.m found.element found.there c.requires.readable) in
    record { holds = holds_found c.args.d.now c.is_whole.ensures c.args.m c.in-Some.found found readable }

pub push_moved-requires-in-Copy : goal.push_moved-requires-in-Copy
push_moved-requires-in-Copy c =
    let found = c.in-Some.ensures.found in
    let readable = subst (λ (e : Edit). MayBePut e found.element) c.in-Copy.is
    (readable_of c.args.edit.now (elements c.args.d.now) c.args.m found.element found.there c.requires.readable) in
    record { holds = holds_found c.args.d.now c.is_whole.ensures c.args.m c.in-Some.found found readable }

pub look_patch-requires : goal.look_patch-requires
look_patch-requires c =
    let found = c.in-Some.ensures.found in
    let ready = subst (λ (e : Edit). MayBePut e found.element) c.in-Sym.is
    (readable_of c.args.edit.now (elements c.args.d.now) c.args.m found.element found.there c.requires.readable) in
    record { long_enough = long_found c.args.d.now c.is_whole.ensures c.args.m c.in-Some.found found ready }

pub mark_patch-requires : goal.mark_patch-requires
mark_patch-requires c = record { long_enough = four_found c.args.d.now c.is_whole.ensures c.args.m c.in-Some.found c.in-Some.ensures.found }

pub returns-in-Move : goal.returns-in-Move
returns-in-Move c =
    let d = c.args.d.now in
    let found = c.in-Some.ensures.found in
    let readable = subst (λ (e : Edit). MayBePut e found.element) c.in-Move.is
    (readable_of c.args.edit.now (elements d) c.args.m found.element found.there c.requires.readable) in
    let one = option_to_list (found_at (elements d) c.args.m) in
    subst (λ (e : Edit). AddsUnless (leaving d.dim e one) (live_puts (rule_of d.dim e) one) c.push_moved.result c.args.patches.now c.push_moved.new.patches)
    (sym c.in-Move.is)
    (adds_same c.push_moved.result c.args.patches.now c.push_moved.new.patches
    (leaving_found d c.is_whole.ensures c.args.m c.in-Some.found found c.in-Move.by readable)
    (moved_found d c.is_whole.ensures c.args.m c.in-Some.found found c.in-Move.by) c.push_moved.ensures)

pub returns-in-Copy : goal.returns-in-Copy
returns-in-Copy c =
    let d = c.args.d.now in
    let found = c.in-Some.ensures.found in
    let readable = subst (λ (e : Edit). MayBePut e found.element) c.in-Copy.is
    (readable_of c.args.edit.now (elements d) c.args.m found.element found.there c.requires.readable) in
    let one = option_to_list (found_at (elements d) c.args.m) in
    subst (λ (e : Edit). AddsUnless (leaving d.dim e one) (live_puts (rule_of d.dim e) one) c.push_moved-in-Copy.result c.args.patches.now
    c.push_moved-in-Copy.new.patches) (sym c.in-Copy.is)
    (adds_same c.push_moved-in-Copy.result c.args.patches.now c.push_moved-in-Copy.new.patches
    (leaving_found d c.is_whole.ensures c.args.m c.in-Some.found found c.in-Copy.by readable)
    (moved_found d c.is_whole.ensures c.args.m c.in-Some.found found c.in-Copy.by) c.push_moved-in-Copy.ensures)

pub returns-in_ok-push-in-Sym : goal.returns-in_ok-push-in-Sym
returns-in_ok-push-in-Sym c =
    let d = c.args.d.now in
    let found = c.in-Some.ensures.found in
    let readable = subst (λ (e : Edit). MayBePut e found.element) c.in-Sym.is
    (readable_of c.args.edit.now (elements d) c.args.m found.element found.there c.requires.readable) in
    let one = option_to_list (found_at (elements d) c.args.m) in
    let puts = look_found d c.is_whole.ensures c.args.m c.in-Some.found found c.in-Sym.change readable in (
      c.in_ok-push-in-Sym.ensures.ok
          ∙ ap (λ (q : Put). c.args.patches.now ++ q ∷ []) c.look_patch.ensures ∙ ap (λ (qs : List Put). c.args.patches.now ++ qs) (sym puts)
          ∙ ap (λ (e : Edit). c.args.patches.now ++ live_puts (rule_of d.dim e) one) (sym c.in-Sym.is),
      ap (λ (e : Edit). leaving d.dim e one) c.in-Sym.is,
    )
