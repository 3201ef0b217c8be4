mod KeptLaws
mod RoomLaws
mod PutLaws
