use Rattle.storage_owner.proofs.Rooms.{HasRoom-layout}
use Rattle.storage_owner.proofs.laws.room_law.Goals as goal

pub returns : goal.returns
returns c = λ matters kinds needs. HasRoom-layout matters kinds needs
