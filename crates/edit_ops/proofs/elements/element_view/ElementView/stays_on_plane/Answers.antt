use Rattle.edit_ops.proofs.elements.element_view.ElementView.stays_on_plane.Goals as goal

pub stays_on_plane-requires-clause-holds : goal.stays_on_plane-requires-clause-holds
stays_on_plane-requires-clause-holds c = rw c.dim.ensures.value c.requires

pub returns : goal.returns
returns c = rw c.dim.ensures.value at c.stays_on_plane.ensures
