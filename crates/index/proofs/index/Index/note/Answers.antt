use Rattle.std.proofs.Common.{Some, None, is_ok, arith}
use Rattle.index_layout.specs.Views.{bucket_of}
use Rattle.index_layout.proofs.Through.{length_views}
use Rattle.index_layout.proofs.Slots.{slot_tells}
use Rattle.index_layout.proofs.Noting.{noted_held, noted_opened, noted_shut}
use Rattle.index.specs.Viewed.{slot_view}
use Rattle.index.specs.Slots.{views}
use Rattle.index.proofs.index.Index.note.Goals as goal

pub returns-in-Some : goal.returns-in-Some
returns-in-Some c =
    let x = c.args.self.now in
    let n = length_views slot_view x.slots 16 x.sized in
    let w = noted_held (views x) (views c.add.new.self) c.in-Some.slot c.args.start c.args.offset c.args.key.code (bucket_of c.args.key.hash) (is_ok c.add.result)
    n (slot_tells (views x) c.args.start (Some c.in-Some.slot) c.in-Some.ensures.is) c.add.new.self.apart c.add.ensures.is c.add.ensures.views in
    record { is = w.result; starts = w.starts; slots = w.slots; kept = w.kept }

pub returns-in_default-open-clause-is : goal.returns-in_default-open-clause-is
returns-in_default-open-clause-is c =
    let x = c.args.self.now in
    let n = length_views slot_view x.slots 16 x.sized in
    noted_shut (views x) c.args.start c.args.offset n (slot_tells (views x) c.args.start None c.in_default.ensures.is).1 c.in_default-open.ensures.is.0

pub returns : goal.returns
returns c =
    let x = c.args.self.now in
    let n = length_views slot_view x.slots 16 x.sized in
    let w = noted_opened (views x) (views c.open.new.self) (views c.add-2.new.self) c.in-Some-open.slot c.args.start c.args.offset c.args.key.code (bucket_of c.args.key.hash) (is_ok c.add-2.result)
    n (slot_tells (views x) c.args.start None c.in_default.ensures.is).1 c.in-Some-open.ensures.is (omega arith) c.add-2.new.self.apart
    c.add-2.ensures.is c.add-2.ensures.views in
    record { is = w.result; starts = w.starts; slots = w.slots; kept = w.kept }
