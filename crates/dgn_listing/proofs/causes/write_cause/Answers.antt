use Rattle.dgn_listing.proofs.causes.write_cause.Goals as goal

pub returns-in-Unknown : goal.returns-in-Unknown
returns-in-Unknown c = rw c.in-Unknown.is c.put_refused.ensures

pub returns-in-Broken : goal.returns-in-Broken
returns-in-Broken c = rw c.in-Broken.is c.put_refused-in-Broken.ensures

pub returns-in-Deleted : goal.returns-in-Deleted
returns-in-Deleted c = rw c.in-Deleted.is c.put_refused-in-Deleted.ensures

pub returns-in-Locked : goal.returns-in-Locked
returns-in-Locked c = rw c.in-Locked.is c.put_refused-in-Locked.ensures

pub returns-in-Dimension : goal.returns-in-Dimension
returns-in-Dimension c = rw c.in-Dimension.is c.put.ensures

pub returns-in-Floating : goal.returns-in-Floating
returns-in-Floating c = rw c.in-Floating.is c.put_refused-in-Floating.ensures

pub returns-in-Opaque : goal.returns-in-Opaque
returns-in-Opaque c = rw c.in-Opaque.is c.put_refused-in-Opaque.ensures

pub returns-in-OffPlane : goal.returns-in-OffPlane
returns-in-OffPlane c = rw c.in-OffPlane.is c.put_refused-in-OffPlane.ensures

pub returns-in-TooLong : goal.returns-in-TooLong
returns-in-TooLong c = rw c.in-TooLong.is c.put-in-TooLong.ensures
