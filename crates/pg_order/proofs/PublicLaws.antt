-- The laws that proofs of other crates cite. Each is the contract of the public function of its name.
use Rattle.pg_order.specs.Laws.{CompatibleInAnyOrder, EncodingMayBeWritten, NoneUnseenIsShorter, OneLength}
use Rattle.pg_order.proofs.lemmas.Lengths as Lengths
use Rattle.pg_order.proofs.lemmas.SeenAgain as SeenAgain

pub encoding_may_be_written : EncodingMayBeWritten
encoding_may_be_written = Lengths.encoding_may_be_written

pub one_length : OneLength
one_length = Lengths.one_length

pub compatible_in_any_order : CompatibleInAnyOrder
compatible_in_any_order view old new a b v bytes is_old is_new =
    SeenAgain.compatible_in_any_order view old new is_old is_new a b v bytes

pub none_unseen_is_shorter : NoneUnseenIsShorter
none_unseen_is_shorter view old new a b n v bytes is_old is_new =
    SeenAgain.none_unseen_is_shorter view old new is_old is_new a b n v bytes
